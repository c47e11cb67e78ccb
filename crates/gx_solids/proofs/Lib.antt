mod Casts
mod Wholes
