pub mod Chains
pub mod Parts
pub mod Alone
pub mod Steps
