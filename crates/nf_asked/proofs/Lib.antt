pub mod Rows
pub mod Lines
pub mod Refusals
pub mod Leading
