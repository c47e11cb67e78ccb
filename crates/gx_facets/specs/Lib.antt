pub mod Edges
pub mod Facets
