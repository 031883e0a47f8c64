pub mod DayNumbers
pub mod Table
pub mod Dates
pub mod Quarters
pub mod View
pub mod WrittenDates
