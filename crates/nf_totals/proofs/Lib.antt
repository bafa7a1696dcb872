pub mod Named
pub mod Folded
pub mod Signed
pub mod Bodies
