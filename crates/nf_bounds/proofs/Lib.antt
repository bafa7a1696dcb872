pub mod Calm
pub mod Bounded
