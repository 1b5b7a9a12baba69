pub mod Same
pub mod Steps
pub mod Certified
pub mod Earliest
