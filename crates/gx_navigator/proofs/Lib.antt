pub mod Counted
pub mod Found
mod Least
pub mod Offered
pub mod Relabel
pub mod Spans
