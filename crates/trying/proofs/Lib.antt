pub mod Growing
pub mod Extending
pub mod Tries
