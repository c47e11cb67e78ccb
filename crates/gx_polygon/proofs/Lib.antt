pub mod Convex
pub mod Corners
mod KnownPolygons
pub mod Rounds
