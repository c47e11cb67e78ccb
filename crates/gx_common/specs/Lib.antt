pub mod Common
pub mod Laws
pub mod Reached
pub mod Sides
pub mod Slots
