pub mod Back
pub mod Again
pub mod Shelves
pub mod Safe
pub mod Rounds
