pub mod Laws
pub mod Lookup
pub mod Parts
pub mod Reading
pub mod Record
