pub mod Results
pub mod Closures
pub mod Operators
pub mod Calls
