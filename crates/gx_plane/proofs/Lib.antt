pub mod Candidates
pub mod Complete
pub mod Cones
mod Determinants
pub mod Divisors
pub mod ExtremeRays
pub mod Invariants
mod KnownPlanes
pub mod PlaneFacts
pub mod Sizes
pub mod TripleFacts
