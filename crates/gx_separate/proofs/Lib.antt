mod AxisPlanes
pub mod KnownPlanes
