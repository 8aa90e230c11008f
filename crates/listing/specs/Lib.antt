pub mod Places
pub mod Faults
pub mod Runs
pub mod Sheets
pub mod Writing
pub mod Listings
pub mod Laws
pub mod Truths
