mod Quiet
mod Receivers
mod Rows
mod Runs
mod Putting
mod Told
