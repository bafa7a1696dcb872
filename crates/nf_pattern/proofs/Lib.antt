pub mod Characters
pub mod Spelling
pub mod Taking
pub mod Literals
pub mod Choosing
pub mod Wholes
pub mod Selves
