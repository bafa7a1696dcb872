pub mod Calls
pub mod Stages
pub mod Patterns
pub mod Shelves
