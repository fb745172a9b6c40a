pub mod ReadBack
pub mod Lines
pub mod PagesRead
pub mod WorkedPage
