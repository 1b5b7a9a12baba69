pub mod Cleans
