pub mod Splices
pub mod Followed
pub mod Adds
pub mod Goings
pub mod Steps
