pub mod Runs
pub mod Guided
