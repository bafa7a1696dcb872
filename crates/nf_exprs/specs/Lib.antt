pub mod Level
pub mod Tokens
pub mod Rules
pub mod Parses
pub mod Nested
pub mod Spells
