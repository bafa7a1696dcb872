pub mod Things
pub mod Tables
pub mod Last
pub mod Standing
pub mod Held
