pub mod Running
pub mod Separating
pub mod Shelvings
