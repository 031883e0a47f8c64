pub mod Line
pub mod View
