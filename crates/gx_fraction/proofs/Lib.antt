pub mod Gcd
pub mod Reduced
