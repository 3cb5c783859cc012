-- What the contracts of the calls follow from.
pub mod Parts
pub mod Turns
pub mod Makes
