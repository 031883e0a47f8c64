pub mod FirstRecord
