pub mod Clashes
pub mod Copies
pub mod Copying
pub mod Report
pub mod Targets
