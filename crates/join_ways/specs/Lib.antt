pub mod Written
pub mod Paths
pub mod Added
