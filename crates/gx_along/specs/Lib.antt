pub mod Along
pub mod Bounds
pub mod Digits
pub mod Laws
pub mod Line
pub mod Runs
pub mod Walked
