pub mod Scripts
pub mod Planned
pub mod Calls
pub mod Main
