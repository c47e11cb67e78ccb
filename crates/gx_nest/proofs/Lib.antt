pub mod Intervals
pub mod Convex
pub mod Bounded
pub mod First
pub mod OneHit
pub mod Nested
pub mod Steady
pub mod Found
