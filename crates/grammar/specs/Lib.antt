pub mod Languages
pub mod Scripts
pub mod Spelling
pub mod Lawful
pub mod Laws
