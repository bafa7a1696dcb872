pub mod Images
mod Records
