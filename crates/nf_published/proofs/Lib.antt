pub mod Ended
pub mod Meant
pub mod Standing
pub mod Histories
pub mod Unpublished
