pub mod Laws
pub mod Outside
