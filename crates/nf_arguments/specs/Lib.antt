pub mod Written
pub mod Args
