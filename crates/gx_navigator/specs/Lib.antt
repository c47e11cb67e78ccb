pub mod Clipped
pub mod Laws
pub mod Paths
pub mod Tests
pub mod Tracer
