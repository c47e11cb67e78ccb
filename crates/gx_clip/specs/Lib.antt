pub mod Clip
pub mod Interval
pub mod Parameter
