pub mod Ahead
pub mod Before
pub mod Exact
pub mod Halves
pub mod Outside
pub mod Parts
pub mod Rising
pub mod Stretches
