-- The laws of a fresh store's words.
pub mod Parts
pub mod Entries
pub mod Levels
