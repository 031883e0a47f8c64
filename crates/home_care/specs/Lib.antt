pub mod Allowed
pub mod Anomalies
pub mod Record
pub mod Row
pub mod Keys
pub mod EventRows
pub mod Fits
