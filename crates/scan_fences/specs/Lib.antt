-- Ranges still to come.
pub mod Fences
