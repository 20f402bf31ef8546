mod Indices
mod Placed
