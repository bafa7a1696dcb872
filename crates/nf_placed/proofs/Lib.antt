pub mod Placing
pub mod Finding
pub mod Arguments
pub mod Answering
pub mod Naming
pub mod Unfitting
