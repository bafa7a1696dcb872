pub mod Calls
pub mod Goes
pub mod Outs
pub mod Settings
pub mod Entries
