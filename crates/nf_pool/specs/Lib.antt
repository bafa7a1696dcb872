pub mod Pool
pub mod Duty
pub mod Sweep
pub use Rattle.nf_locked.specs.Locked
pub use Rattle.nf_serial.specs.Serial
