pub mod Gathered
pub mod Joined
mod Places
