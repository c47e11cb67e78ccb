mod Corners
mod FacetFacts
mod Joined
mod Numbers
