pub mod Entry
pub mod Files
pub mod Operators
pub mod Reads
pub mod Script
pub mod Sources
pub mod Taking
