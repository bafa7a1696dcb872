pub mod Given
pub mod Steady
