pub mod Stepping
mod Filled
pub mod Hits
pub mod Growing
pub mod Turning
pub mod Nesting
pub mod Returns
pub mod Satisfying
pub mod Trails
pub mod Looping
pub mod Seeking
pub mod Agreeing
pub mod Choosing
pub mod Showing
