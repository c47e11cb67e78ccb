pub mod InRange
mod Places
mod Series
mod Steps
