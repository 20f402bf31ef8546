mod Numbered
mod Reaching
mod Walking
