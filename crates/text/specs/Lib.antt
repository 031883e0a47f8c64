pub mod Put
pub mod Spelled
