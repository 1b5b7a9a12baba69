pub mod Handed
pub mod Decodes
pub mod Encodes
