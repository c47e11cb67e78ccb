pub mod Decl
pub mod Lines
pub mod Placements
pub mod Range
pub mod Solids
pub mod Turns
pub mod Words
