pub mod Tickets
pub mod Flying
