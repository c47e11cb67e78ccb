mod Adding
pub mod Closing
mod FacePoints
mod Found
mod OutwardEdge
