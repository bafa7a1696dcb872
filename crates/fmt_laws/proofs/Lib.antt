pub mod Places
pub mod TopPlaces
pub mod Printed
pub mod Reading
