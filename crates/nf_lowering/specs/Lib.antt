pub mod State
pub mod Steps
pub mod Nodes
pub mod Workflows
