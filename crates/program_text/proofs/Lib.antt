pub mod CutList
