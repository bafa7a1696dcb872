pub mod Reading
pub mod Around
pub mod Patterns
pub mod Script
pub mod Judged
pub mod Stuck
pub mod Known
