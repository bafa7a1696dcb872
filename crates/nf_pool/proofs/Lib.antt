pub mod Works
pub mod Lanes
pub mod Sweeps
pub mod Ends
pub mod Wholes
pub mod Duties
pub mod Crosses
pub use Rattle.nf_serial.proofs.Serving
