pub mod Firsts
pub mod Aligned
pub mod Latest
pub mod NamesLeft
