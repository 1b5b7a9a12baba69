pub mod Verdicts
pub mod Runs
pub mod Separable
pub mod Shelving
