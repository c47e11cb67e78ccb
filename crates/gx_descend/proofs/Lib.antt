mod Placed
mod Reached
mod Counted
mod Gone
mod Going
