pub mod Layers
pub mod Expressions
pub mod Formed
pub mod Bodies
pub mod Chains
pub mod Parts
pub mod Steps
pub mod Lighter
