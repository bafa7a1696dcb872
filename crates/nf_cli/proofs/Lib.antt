pub mod Alike
pub mod Requests
pub mod Lowering
pub mod Planning
pub mod Working
pub mod Lanes
pub mod Ending
pub mod Rooms
