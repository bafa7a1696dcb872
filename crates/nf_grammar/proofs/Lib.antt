pub mod Outcomes
pub mod Short
