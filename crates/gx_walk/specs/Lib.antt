pub mod Entry
pub mod Giving
pub mod Hits
pub mod Small
