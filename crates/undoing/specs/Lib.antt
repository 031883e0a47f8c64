pub mod ReadBack
pub mod Undone
