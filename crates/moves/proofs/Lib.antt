pub mod Full
pub mod Moving
