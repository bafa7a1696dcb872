pub mod Ran
pub use Rattle.nf_pool.specs.Pool
pub use Rattle.nf_pool.specs.Serial
pub use Rattle.nf_owed.specs.Ended
pub use Rattle.nf_owed.specs.Finished
pub use Rattle.nf_owed.specs.Run
pub use Rattle.nf_owed.specs.declared.finished.Finished as DeclaredFinished
