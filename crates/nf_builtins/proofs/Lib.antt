pub mod Integers
pub mod Dots
pub mod Values
pub mod Entries
pub mod Sums
pub mod Lines
pub mod Read
pub mod ReadRows
