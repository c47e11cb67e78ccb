mod Boxed
pub mod Covered
pub mod Elements
pub mod Flat
pub mod Grown
pub mod OnAxis
pub mod Slices
pub mod Standing
