pub mod FieldTexts
pub mod Parts
pub mod Track1
pub mod Track2
pub mod Schemas
