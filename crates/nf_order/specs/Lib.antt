pub mod Callees
pub mod Parts
pub mod Natives
pub mod Accepted
pub mod Fault
pub mod Standing
pub mod Memory
