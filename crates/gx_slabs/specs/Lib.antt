pub mod Row
pub mod Slabs
