pub mod Numbers
pub mod Laws
pub mod MarkLaws
pub mod Lists
pub mod Overs
