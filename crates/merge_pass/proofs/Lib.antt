-- Laws of what is due.
pub mod Due
pub mod Passing
