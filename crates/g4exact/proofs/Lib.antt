pub mod Answered
pub mod Checks
mod RowCounts
pub mod Feeding
mod Numbers
pub mod Paths
pub mod Runs
mod Samples
pub mod Counters
pub mod Traces
