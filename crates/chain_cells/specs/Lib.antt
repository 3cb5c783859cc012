-- Cells in chains, and what each change of a chain leaves.
pub mod Cells
pub mod Order
pub mod Held
pub mod Sifting
pub mod Splicing
