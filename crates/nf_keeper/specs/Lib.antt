pub mod Faults
pub mod FileKeeper
pub mod FuseKeeper
pub mod Held
pub mod MemKeeper
