pub mod Given
pub mod Laws
pub mod Matrix
pub mod Place
pub mod Rotation
