pub mod Canonical
pub mod Laws
pub mod Printable
pub mod Text
pub mod Words
