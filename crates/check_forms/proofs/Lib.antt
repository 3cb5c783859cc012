-- What is asked of a point and of a range, in the order of the code.
pub mod Asked
