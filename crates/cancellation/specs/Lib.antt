pub mod Chosen
pub mod FileText
pub mod CancelFile
pub mod Rows
pub mod View
