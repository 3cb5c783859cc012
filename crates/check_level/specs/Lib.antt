-- What the check of a level computes, in the order of the code.
pub mod Levels
