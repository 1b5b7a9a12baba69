pub mod Judging
pub mod Widths
