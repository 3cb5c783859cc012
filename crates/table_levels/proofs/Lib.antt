-- Laws of the level table's words, as the code reads them.
pub mod Fits
pub mod Adds
