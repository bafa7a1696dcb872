pub mod Run
pub mod Steps
pub mod Echo
pub mod Making
