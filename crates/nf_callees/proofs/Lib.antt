pub mod Puts
pub mod Tops
pub mod Titles
