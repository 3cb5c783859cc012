-- The timed calls on the two tables.
pub mod Calls
