pub mod Crossed
pub mod Descent
