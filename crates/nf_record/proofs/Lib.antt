pub mod Answering
pub mod Back
pub mod Exact
pub mod Fronts
pub mod Listing
pub mod Missing
pub mod Options
