pub mod Alone
pub mod Going
pub mod Turns
pub mod Still
pub mod Serving
pub mod Attempting
pub mod Whole
