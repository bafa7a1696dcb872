pub mod MeetLane
pub mod Natives
