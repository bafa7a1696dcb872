pub mod Bag
pub mod Sorted
pub mod Fault
pub mod Row
pub mod Options
pub mod Tests
