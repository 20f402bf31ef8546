mod Attempts
mod Classes
