pub mod Bags
pub mod Lists
pub mod Fix
pub mod Singles
pub mod Refused
pub mod WellMade
pub use Rattle.nf_operator.proofs.Few
pub use Rattle.nf_operator.proofs.Singles as OperatorSingles
pub use Rattle.nf_operator.proofs.Table
pub use Rattle.nf_operator.proofs.Members
pub use Rattle.nf_operator.proofs.Tally
