pub mod Meaning
pub mod Machines
pub mod Rejects
pub mod Agrees
pub mod Outcomes
pub mod Promises
