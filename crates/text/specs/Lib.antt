pub mod Reads
pub mod Formulas
pub mod Lines
pub mod Scripts
