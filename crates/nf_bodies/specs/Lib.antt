pub mod Labels
pub mod Bodies
pub mod Means
pub mod Proper
pub use Rattle.nf_eval.specs.Evaluation
pub use Rattle.nf_stored.specs.Attempts
pub use Rattle.nf_eval.specs.Placed
