mod HullFacts
mod Loops
mod InMother
