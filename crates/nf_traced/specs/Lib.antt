pub mod Takes
pub mod Reading
pub mod Traced
