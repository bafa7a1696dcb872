pub mod Alike
pub mod Respects
pub mod Same
pub mod Chains
pub mod Own
pub mod Steps
