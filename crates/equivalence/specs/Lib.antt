pub mod Answers
pub mod Decided
