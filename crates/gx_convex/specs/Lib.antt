pub mod Extent
pub mod Faces
pub mod Hull
pub mod Laws
pub mod Points
