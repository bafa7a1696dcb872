pub mod Fit
pub mod Made
