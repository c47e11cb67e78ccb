pub mod Declarations
pub mod Faults
pub mod Gathering
pub mod Items
pub mod Rays
pub mod Table
