pub mod Same
pub mod Points
pub mod Certificates
pub mod Earliest
pub mod Theorems
