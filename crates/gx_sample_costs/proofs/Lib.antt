mod Across
mod Costs
mod Rays
