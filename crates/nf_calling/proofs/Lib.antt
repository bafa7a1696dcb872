pub mod Along
pub mod Present
mod Texts
mod Counts
mod Checking
mod Lasting
mod Queues
mod Naming
mod Specs
mod Tasking
pub mod Bound
pub mod Heads
pub mod Places
mod Beginning
mod Enters
