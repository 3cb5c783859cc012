-- A sweep that begins, changes its levels and ends.
pub mod Sweeps
