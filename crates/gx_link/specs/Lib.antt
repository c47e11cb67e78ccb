pub mod Build
pub mod Crowd
pub mod Links
pub mod Text
