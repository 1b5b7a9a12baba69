pub mod Parts
pub mod Opened
