pub mod Map
pub mod Checks
pub mod Machine
pub mod Transmission
pub mod Flow
pub mod Demands
pub mod Log
pub mod Anomalies
