pub mod Bytes
pub mod ShelfMarks
