mod Fits
mod Following
mod Lawful
mod Marks
