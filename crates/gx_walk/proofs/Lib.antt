pub mod Items
pub mod Open
pub mod Order
pub mod Pending
pub mod Sorted
pub mod Takes
pub mod Weights
