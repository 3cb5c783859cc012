-- What a lookup in the tables answers.
pub mod Found
pub mod Lookup
pub mod Counts
