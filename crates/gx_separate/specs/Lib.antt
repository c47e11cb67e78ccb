pub mod Between
pub mod Boxes
