pub mod Cause
pub mod Whole
