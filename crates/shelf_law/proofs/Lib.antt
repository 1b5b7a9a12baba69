pub mod Placings
pub mod Limits
pub mod Laws
pub mod Compositions
