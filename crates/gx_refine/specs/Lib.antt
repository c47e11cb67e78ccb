pub mod Best
pub mod Grown
pub mod Known
pub mod Near
