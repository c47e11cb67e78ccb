pub mod Marks
pub mod Offers
