pub mod Values
pub mod Kept
pub mod Around
pub mod Gives
pub mod Labels
pub mod Words
pub mod Processes
