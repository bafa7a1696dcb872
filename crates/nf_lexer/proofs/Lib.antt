pub mod Places
pub mod Runs
pub mod Steps
pub mod Loop
pub mod OneAnswer
pub mod Longest
pub mod Utf8
