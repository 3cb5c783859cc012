-- Laws of marks.
pub mod Bits
pub mod Marks
