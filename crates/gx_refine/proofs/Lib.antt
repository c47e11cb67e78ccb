pub mod Better
pub mod Blocks
pub mod Growing
pub mod Least
pub mod Parts
pub mod Ranges
pub mod Trees
