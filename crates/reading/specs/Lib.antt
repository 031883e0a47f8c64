pub mod Places
pub mod Print
pub mod Printable
pub mod Many
pub mod Everywhere
