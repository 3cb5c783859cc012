-- Marks of slots, packed into bytes.
pub mod Marks
