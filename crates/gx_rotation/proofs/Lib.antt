pub mod Algebra
mod Each
mod Oriented
pub mod Tables
mod Turns
