pub mod Trying
pub mod Calling
