pub mod ReadBack
pub mod PagesRead
pub mod WorkedPage
