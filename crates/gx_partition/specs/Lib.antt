pub mod Laws
pub mod Partition
pub mod Walk
