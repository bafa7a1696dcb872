pub mod Leads
pub mod Bits
pub mod InkTokens
pub mod Fits
pub mod Lexed
