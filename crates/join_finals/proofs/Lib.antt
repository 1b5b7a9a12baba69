pub mod Short
pub mod Steps
