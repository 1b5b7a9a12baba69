pub mod Results
pub mod Table
pub mod Faults
pub mod Check
pub mod Sound
