pub mod Operator
pub mod Rows
