-- The kinds of slots.
pub mod Kinds
