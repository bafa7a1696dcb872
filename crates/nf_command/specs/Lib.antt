pub mod Usage
pub mod Numbers
pub mod Words
pub mod Run
pub mod Commands
