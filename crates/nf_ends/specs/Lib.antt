pub mod Lines
pub mod Ends
pub mod Causes
pub mod Stops
pub mod Kinds
pub mod Writes
pub mod Summary
