pub mod Bare
pub mod Shape
pub mod Again
