pub mod Number
pub mod Ray
pub mod Space
pub mod Vector
pub mod Vector4
