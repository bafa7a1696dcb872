pub mod Staying
pub mod Distinct
pub mod Entering
pub mod Legals
pub mod Making
