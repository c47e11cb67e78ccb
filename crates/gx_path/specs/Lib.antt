pub mod Laws
pub mod Memory
pub mod Path
pub mod Report
