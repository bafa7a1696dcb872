pub mod Ticket
pub mod Flights
pub mod Inputs
