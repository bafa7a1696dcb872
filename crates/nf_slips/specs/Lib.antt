pub mod Forms
pub mod Closures
pub mod Slips
pub mod Definitions
pub mod Memory
