pub mod Members
pub mod Putting
pub mod Stepping
pub mod Blanks
pub mod Gathering
