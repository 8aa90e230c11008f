pub mod Below
pub mod Digits
pub mod Least
pub mod Limited
pub mod Paired
pub mod Pooled
pub mod Ranged
pub mod Walked
