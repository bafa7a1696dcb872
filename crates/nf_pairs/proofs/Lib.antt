pub mod Putting
pub mod Values
