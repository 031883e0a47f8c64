pub mod Converted
pub mod Widened
pub mod View
