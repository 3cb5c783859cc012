-- What an operation is whose work is known.
pub mod Known
