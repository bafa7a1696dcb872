pub mod Reading
pub mod Refused
pub mod Texts
pub mod Parameters
pub mod Trees
