pub mod Holding
pub mod Answering
