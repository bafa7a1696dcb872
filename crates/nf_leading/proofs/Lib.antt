mod Lists
mod Sizes
pub mod Arms
mod Naming
mod Things
mod Outputs
