pub mod Counts
pub mod Board
