pub mod Lines
pub mod Series
pub mod Turning
pub mod Whole
