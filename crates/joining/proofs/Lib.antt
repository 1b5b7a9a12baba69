pub mod Joinings
