-- Laws of digits and of bytes that are overwritten; what is printed reads back.
pub mod Digits
pub mod Overwrites
mod Fronts
mod Several
pub mod RoundTrip
