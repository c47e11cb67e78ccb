pub mod Marked
pub mod Offered
