pub mod Bodies
pub mod Stays
pub mod Wanted
