pub mod WatchedKeeper
pub mod WatchedLane
pub mod WatchedSink
