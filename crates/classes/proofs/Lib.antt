pub mod Terms
pub mod Picks
pub mod Moves
pub mod Least
pub mod Rules
pub mod Ends
pub mod Worth
pub mod Idles
