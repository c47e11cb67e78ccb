pub mod Names
pub mod Casts
pub mod Derivations
pub mod Descent
pub mod DigitValues
pub mod Leaves
pub mod Numbers
pub mod Tokens
pub mod PlainWords
pub mod Quotient
pub mod KeptDigits
pub mod Trees
mod KnownValues
