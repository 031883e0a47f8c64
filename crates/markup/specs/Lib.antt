pub mod Bytes
pub mod NamesAndValues
pub mod Comments
pub mod Tags
pub mod Elements
pub mod Document
pub mod View
pub mod Batches
