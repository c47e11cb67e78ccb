pub mod Laws
pub mod Met
