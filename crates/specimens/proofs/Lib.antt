pub mod Claims
pub mod Cases
