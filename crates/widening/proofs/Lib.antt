pub mod Laying
pub mod Answers
pub mod WideRows
pub mod WideState
pub mod Kept
pub mod OneConverted
