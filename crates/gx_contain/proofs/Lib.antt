pub mod Containment
mod KnownPoints
