pub mod Ends
pub mod Spells
