pub mod RowBytes
pub mod Cases
pub mod Events
