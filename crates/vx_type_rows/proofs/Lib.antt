mod FieldRows
mod CallRows
