-- What is proved of one timed call on tables of any content, and of lists of them.
pub mod Runs
pub mod Refusals
pub mod Bounds
