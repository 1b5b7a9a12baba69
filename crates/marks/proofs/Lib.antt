pub mod Terms
pub mod Sets
pub mod Table
