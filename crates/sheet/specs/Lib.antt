pub mod Faults
pub mod Kinds
pub mod States
pub mod Over
pub mod Calls
pub mod Walking
pub mod Checks
pub mod Histories
