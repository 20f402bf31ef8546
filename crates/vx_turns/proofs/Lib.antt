pub mod Spending
pub mod Grown
pub mod Making
pub mod Opening
pub mod Turning
pub mod Closing
pub mod Whole
pub mod Tended
