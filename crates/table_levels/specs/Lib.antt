-- A level's row as the code reads it.
pub mod Levels
