pub mod Ordering
pub mod Writer
pub mod Packing
