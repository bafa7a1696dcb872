pub mod Parted
pub mod Components
pub mod Stripped
pub mod Patterns
pub mod Grouping
pub mod Pairing
