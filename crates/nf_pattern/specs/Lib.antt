pub mod Parting
pub mod Glob
pub mod Literal
pub mod Parts
pub mod Choices
pub mod Reach
pub mod Wrapped
pub mod Whole
