pub mod Numbers
pub mod Flow
pub mod CheckOrder
pub mod Readable
