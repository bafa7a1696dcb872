pub mod JobText
pub mod Sizes
pub mod Kept
pub mod Fault
pub mod Emission
