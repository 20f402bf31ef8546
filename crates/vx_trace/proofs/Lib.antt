mod Chained
mod Ended
mod Ends
