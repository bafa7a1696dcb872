pub mod Heads
pub mod Reading
pub mod Fronts
pub mod Whole
