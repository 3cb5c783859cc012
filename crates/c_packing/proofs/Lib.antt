-- Laws of answers as numbers.
pub mod Readers
pub mod ReadBack
