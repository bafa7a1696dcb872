pub mod Rooms
pub mod Taking
pub mod Applied
pub mod Sources
pub use Rattle.nf_taken.specs.Bodies
pub use Rattle.nf_taken.specs.Calls
pub use Rattle.nf_taken.specs.Paths
pub use Rattle.nf_taken.specs.Rows
pub use Rattle.nf_taken.specs.Shapes
pub use Rattle.nf_taken.specs.Sources as TakenSources
pub use Rattle.nf_taken.specs.Taken
pub use Rattle.nf_taken.specs.Wanted
pub use Rattle.nf_taken.specs.declared.paths.PathArgs
pub use Rattle.nf_taken.specs.declared.taken.Taken as DeclaredTaken
