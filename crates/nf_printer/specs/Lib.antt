pub mod Levels
pub mod Bodies
pub mod Exprs
pub mod Leading
pub mod Chains
pub mod Tops
