pub mod Named
pub mod Blocks
pub mod Places
pub mod Bodies
pub mod Holding
