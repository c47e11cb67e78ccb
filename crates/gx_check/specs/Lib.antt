pub mod Clean
pub mod Counting
pub mod Gives
pub mod Kept
pub mod Laws
pub mod Verdicts
