pub mod CommandLine
pub mod Request
pub mod Answers
pub mod Steps
