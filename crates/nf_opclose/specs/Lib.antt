pub mod Closing
pub mod Gathered
pub mod Numbers
pub mod Reduce
pub mod Rows
pub mod Running
pub mod Kept
pub mod Room
