pub mod Refusals
pub mod Outcomes
