pub mod Lines
pub mod UpTo
