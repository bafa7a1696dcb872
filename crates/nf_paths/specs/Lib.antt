pub mod Paths
pub mod Pairs
pub mod Texts
pub mod Groups
