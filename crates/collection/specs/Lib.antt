pub mod Filing
pub mod History
pub mod Law
