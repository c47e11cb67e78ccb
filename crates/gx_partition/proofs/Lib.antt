pub mod Ends
pub mod Tilings
pub mod Walks
pub mod Partitions
pub mod Rests
pub mod OnePartition
pub mod OpenRows
pub mod Sorted
pub mod Collected
mod KnownWalks
