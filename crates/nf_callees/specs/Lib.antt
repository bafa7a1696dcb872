pub mod Found
pub mod Callee
