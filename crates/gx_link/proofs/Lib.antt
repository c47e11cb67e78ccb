pub mod Daughters
pub mod Limits
mod Linked
mod Lists
mod Told
