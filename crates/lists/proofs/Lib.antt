-- Laws of tests and lists that know nothing of the store.
pub mod Bools
pub mod Tests
pub mod Branches
pub mod Merges
pub mod Loops
pub mod Counting
pub mod Counts
