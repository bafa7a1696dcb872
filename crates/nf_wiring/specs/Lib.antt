pub mod Places
pub mod Wiring
