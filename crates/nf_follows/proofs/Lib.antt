pub mod Steps
mod Growth
pub mod Binds
mod Rooming
