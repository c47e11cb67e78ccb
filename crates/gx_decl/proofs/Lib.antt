mod Replay
pub mod Values
