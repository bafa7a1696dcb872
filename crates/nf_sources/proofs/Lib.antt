pub mod Found
pub mod Taken
pub mod Slashes
