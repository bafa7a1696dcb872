pub mod Gram
pub mod Reads
pub mod Outcome
pub mod Parts
