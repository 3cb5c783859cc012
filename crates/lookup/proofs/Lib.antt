-- Laws of the levels, of the refusals, of the answer's numbers and of its count.
pub mod Levels
pub mod Refused
pub mod Numbers
pub mod Counts
pub mod Bounds
