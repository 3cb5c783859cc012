-- When to wake, by the words of the two tables.
pub mod Wake
