mod Clean
pub mod Each
mod Giving
mod Judged
mod Left
mod Placed
mod Seeking
mod Sizes
