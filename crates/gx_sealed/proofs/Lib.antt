pub mod Boxes
pub mod Copies
pub mod Extents
pub mod Most
pub mod Proper
pub mod Solids
pub mod Tables
pub mod Turned
