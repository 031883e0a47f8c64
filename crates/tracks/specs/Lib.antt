pub mod EventElements
pub mod RecordFields
pub mod WellRead
pub mod Typed
pub mod View
pub mod Top
pub mod TooMany
