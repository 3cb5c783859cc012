-- The store at the start of a call, and the calls that are turned away.
pub mod Begun
