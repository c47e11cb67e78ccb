pub mod Commands
pub mod Ends
pub mod Laws
pub mod Marks
pub mod Output
pub mod Counters
