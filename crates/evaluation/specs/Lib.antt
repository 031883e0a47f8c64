pub mod InForce
pub mod Latest
pub mod View
