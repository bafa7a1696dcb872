pub mod Taken
pub mod Outs
pub mod Stepped
pub mod Paired
