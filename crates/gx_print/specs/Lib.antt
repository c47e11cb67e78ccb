pub mod Range
pub mod Texts
