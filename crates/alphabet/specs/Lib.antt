pub mod Causes
pub mod Model
pub mod Questions
pub mod Laws
