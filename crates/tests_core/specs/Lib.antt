pub mod Tried
pub mod Opened
