pub mod Along
pub mod Ranges
pub mod Rising
