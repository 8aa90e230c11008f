pub mod Numbers
pub mod Opened
pub mod Turns
