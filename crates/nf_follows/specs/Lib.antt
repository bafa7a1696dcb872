pub mod Follows
pub mod Extends
pub mod Things
pub mod Lowers
pub mod Rooms
pub use Rattle.nf_lowered.specs.Given
