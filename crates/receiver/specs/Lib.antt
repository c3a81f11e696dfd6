pub mod State
pub mod Frames
pub mod Reports
pub mod Pacing
