pub mod Seen
pub mod Questions
pub mod Stopped
pub mod Log
pub mod Parts
pub mod Flow
pub use Rattle.nf_nodes.specs.Steps
pub use Rattle.nf_nodes.specs.Ready
