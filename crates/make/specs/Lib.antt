-- Making a store: what a call of `make` answers and leaves in the two tables.
pub mod Make
