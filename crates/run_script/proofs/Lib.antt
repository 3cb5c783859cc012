-- Turns that follow each other.
pub mod Runs
