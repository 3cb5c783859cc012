-- What a test of slots has to show, and a chain walked up to the first cell that would go.
pub mod Decisions
pub mod Walks
