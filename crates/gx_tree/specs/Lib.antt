pub mod Deepest
pub mod Ends
pub mod Fault
pub mod Hierarchy
pub mod Laws
pub mod Limits
pub mod Marks
pub mod Volume
