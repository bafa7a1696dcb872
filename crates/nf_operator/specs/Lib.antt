pub mod Row
pub mod Outputs
pub mod Answer
pub mod Kept
pub mod State
pub use Rattle.nf_opstream.specs.Fault
pub use Rattle.nf_opstream.specs.Operator
pub use Rattle.nf_opstream.specs.Push
pub use Rattle.nf_opclose.specs.Reduce
pub use Rattle.nf_opclose.specs.Rows
pub use Rattle.nf_opstream.specs.Rows as OpstreamRows
