pub mod CoreRows
