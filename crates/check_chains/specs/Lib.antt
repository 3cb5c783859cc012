-- What the check computes past one level, in the order of the code.
pub mod Levels
