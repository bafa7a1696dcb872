pub mod Clashing
pub mod Copied
pub mod Tests
