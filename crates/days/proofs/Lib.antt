pub mod Months
pub mod Follows
pub mod Firsts
pub mod Years
pub mod Digits
pub mod Periods
pub mod Reading
pub mod WrittenDates
