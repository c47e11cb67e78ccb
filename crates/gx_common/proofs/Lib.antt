pub mod Alternatives
mod Apart
mod Corners
mod Counts
mod Inside
mod KnownPoints
mod Levels
mod Lists
mod Mixes
mod Offered
pub mod Quick
mod Reached
mod Shown
mod Sides
mod Taken
