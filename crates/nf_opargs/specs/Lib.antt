pub mod Still
pub mod Sources
