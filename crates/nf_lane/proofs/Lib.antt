pub mod Entries
pub mod Growing
pub mod Lacking
pub mod Reading
pub mod Steps
