pub mod Around
pub mod Polygon
