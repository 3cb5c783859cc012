-- Which cells go.
pub mod Doomed
