pub mod Run
pub mod Ended
pub mod Finished
