pub mod Pushes
pub mod Names
pub mod Codes
pub mod Apart
pub mod Fits
