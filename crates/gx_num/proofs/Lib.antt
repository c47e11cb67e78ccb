mod Products
pub mod Divisors
pub mod Order
pub mod Points
