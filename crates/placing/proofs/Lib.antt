pub mod Turns
pub mod Decisions
pub mod Placements
