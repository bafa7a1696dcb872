pub mod Taken
pub mod Rows
pub mod Wanted
pub mod Shapes
pub mod Calls
pub mod Bodies
pub mod Sources
pub mod Paths
