pub mod Last
pub mod Line
pub mod Status
pub mod Task
pub mod Reading
