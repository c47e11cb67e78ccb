pub mod Cells
mod Counts
mod Descent
pub mod Formed
mod Judged
mod Leads
mod Marks
mod Numbers
mod Ordinals
pub mod Placed
mod Roots
mod Search
pub mod Tree
