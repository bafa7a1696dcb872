pub mod Pointer
pub mod Params
