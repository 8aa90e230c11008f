pub mod Puts
pub mod Language
pub mod Added
pub mod Truths
pub mod Answered
pub mod Listed
