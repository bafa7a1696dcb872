pub mod Outcome
pub mod Args
pub mod Texts
pub mod Joined
