mod Attempted
mod Passed
mod Raised
mod Turned
mod Underway
