pub mod Printed
pub mod Events
pub mod Kept
pub mod Histories
pub mod Lists
