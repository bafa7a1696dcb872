pub mod Leading
pub mod Refusing
pub mod Closing
pub mod Tracing
pub mod Owing
