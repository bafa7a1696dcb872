pub mod Order
pub mod Numbers
pub mod Counts
pub mod Heads
pub mod Spot
