pub mod Identities
pub mod Identity
pub mod Laws
pub mod Lists
pub mod Order
pub mod Ring
pub mod Terms
