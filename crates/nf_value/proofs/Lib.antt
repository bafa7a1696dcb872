pub mod Loops
pub mod Texts
pub mod Lengths
pub mod Rising
