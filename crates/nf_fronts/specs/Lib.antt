pub mod Fronts
pub mod Lasts
pub mod Arms
