-- Levels as chains of cells, and what the calls of a merge ask for and leave of them.
pub mod Maps
pub mod Spans
pub mod Points
pub mod Ranges
pub mod Levels
pub mod Counts
pub mod Merging
pub mod Settling
