-- Laws of a scan's refusals and of the rows that it fills, whatever the rows are.
pub mod Refusals
pub mod Filling
pub mod Reached
pub mod Natural
pub mod Counts
pub mod Bounds
pub mod Words
