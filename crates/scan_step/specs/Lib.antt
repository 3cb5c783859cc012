-- A sweep: the live dockets that are still to come.
pub mod Sweeps
