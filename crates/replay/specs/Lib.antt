pub mod Replays
pub mod Sizes
