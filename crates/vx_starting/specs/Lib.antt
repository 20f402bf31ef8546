pub mod Starting
