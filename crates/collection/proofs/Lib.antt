pub mod Filings
pub mod Laws
