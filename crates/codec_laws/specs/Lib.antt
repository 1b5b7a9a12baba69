pub mod Code
pub mod Numbers
pub mod Entries
pub mod Ranges
pub mod Marks
pub mod Lists
