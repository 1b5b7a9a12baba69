pub mod Walkings
pub mod Turns
pub mod Explorings
