-- A timed call's operation, and its work.
pub mod Ops
pub mod Works
