pub mod Stopping
pub mod Blaming
pub mod Lanes
pub mod Viewing
pub mod Idle
pub mod Patterns
pub mod Trees
pub mod Shared
