pub mod Untold
pub mod Paths
pub mod Agreeing
pub mod Meanings
pub mod Publishing
pub mod Finishes
pub mod Contents
pub mod Faultless
