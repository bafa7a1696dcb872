pub mod Blanks
pub mod Splits
pub mod Numbers
pub mod Last
pub mod Lines
pub mod Tasks
