pub mod Steady
pub mod Sets
pub mod Rounded
pub mod Staged
pub mod Parted
pub mod Shelved
