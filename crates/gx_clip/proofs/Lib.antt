pub mod Clips
pub mod Parameters
pub mod Parts
