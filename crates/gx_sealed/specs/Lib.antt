pub mod Placed
pub mod Sealed
pub mod Slabs
