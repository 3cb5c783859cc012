-- How answers go out to C.
pub mod Packed
pub mod Readers
