pub mod Ink
pub mod Lines
pub mod Styles
