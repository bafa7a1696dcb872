pub mod Totals
pub mod Marks
