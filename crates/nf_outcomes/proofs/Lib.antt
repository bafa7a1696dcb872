pub mod Search
pub mod Sights
pub mod Descends
pub mod Exprs
pub mod Tops
pub mod Every
pub mod Ends
