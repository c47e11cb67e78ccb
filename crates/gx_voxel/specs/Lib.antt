pub mod Kept
pub mod Cells
pub mod Cut
pub mod Laws
pub mod Members
pub mod Proxy
