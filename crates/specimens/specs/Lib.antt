pub mod Bytes
pub mod Marks
pub mod Filters
pub mod Claims
pub mod Cases
pub mod Specimens
