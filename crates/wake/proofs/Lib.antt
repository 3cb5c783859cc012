-- Laws of when to wake, as the code works it out.
pub mod Turns
pub mod Answers
pub mod Bounds
