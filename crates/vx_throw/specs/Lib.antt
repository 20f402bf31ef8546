pub mod Exceptions
pub mod Thrown
pub mod Flights
pub mod Landings
pub mod Leaving
pub mod Making
