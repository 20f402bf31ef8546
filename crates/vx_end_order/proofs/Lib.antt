pub mod EndOrder
