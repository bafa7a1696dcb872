pub mod Order
pub mod Counting
pub mod Heads
pub mod Keeping
pub mod Ports
pub mod Takes
pub mod Waiting
