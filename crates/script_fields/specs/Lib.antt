-- The numbers of a line, and what stands at a position of it.
pub mod Numbers
pub mod Fields
