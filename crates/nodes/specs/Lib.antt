pub mod Lookup
pub mod Stands
pub mod Several
