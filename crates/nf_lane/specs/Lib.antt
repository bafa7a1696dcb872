pub mod Faults
pub mod World
pub mod Store
pub mod Done
pub mod Seen
pub mod TableLane
pub mod ChildLane
pub mod Child
