pub mod Bounded
pub mod Shared
