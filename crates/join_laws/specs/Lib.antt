pub mod Lists
pub mod Lines
pub mod Ways
pub mod Pairs
pub mod Joined
pub mod Theorems
