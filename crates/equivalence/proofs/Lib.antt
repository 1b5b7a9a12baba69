pub mod Searching
pub mod Starting
pub mod Deciding
