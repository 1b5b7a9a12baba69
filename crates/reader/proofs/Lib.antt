pub mod Stands
pub mod Shown
