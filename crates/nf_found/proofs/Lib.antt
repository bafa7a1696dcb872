pub mod AtPath
pub mod Kept
pub mod Steps
pub mod Stored
