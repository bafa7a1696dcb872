pub mod Out
pub mod Locked
pub mod Leaves
pub mod Entered
pub use Rattle.nf_serial.specs.Serial
