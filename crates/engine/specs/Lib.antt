pub mod Targets
pub mod Marks
pub mod Rounded
pub mod Passing
pub mod Satisfied
pub mod Lassos
pub mod Seeking
pub mod Shown
