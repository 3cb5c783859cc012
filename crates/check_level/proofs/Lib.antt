-- The laws of one level.
pub mod Levels
pub mod Passed
