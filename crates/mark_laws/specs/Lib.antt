pub mod Marks
pub mod Sets
