pub mod Parsed
pub mod Words
pub mod Said
