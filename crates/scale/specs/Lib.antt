pub mod Readings
pub mod Grades
pub mod Lawfulness
pub mod Digits
