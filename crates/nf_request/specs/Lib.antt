pub mod Words
pub mod Wishes
pub mod Held
pub mod Script
pub mod Steps
