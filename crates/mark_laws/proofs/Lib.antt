pub mod Bits
pub mod Prime
pub mod Laws
pub mod Sets
