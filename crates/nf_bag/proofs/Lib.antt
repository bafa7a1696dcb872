pub mod Bags
pub mod Rising
pub mod Once
pub mod Sorts
pub mod ByTests
