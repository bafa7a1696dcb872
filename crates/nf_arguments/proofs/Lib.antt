mod Lists
mod Arguments
mod Forms
pub mod Behind
mod Splits
