pub mod View
pub mod Walk
pub mod Sound
pub mod Finding
