pub mod Slabs
pub mod Trees
