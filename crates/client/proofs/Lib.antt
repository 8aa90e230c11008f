pub mod Entering
pub mod Asking
pub mod Refusing
