pub mod Flats
pub mod Tables
pub mod Answers
pub mod Joins
pub mod Calls
