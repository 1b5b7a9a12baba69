pub mod Outputs
pub mod Fronts
pub mod Wholes
pub mod Lengths
