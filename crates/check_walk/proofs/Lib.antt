-- The laws of walks.
pub mod Chains
pub mod Unmarked
pub mod Walks
pub mod Each
pub mod Passed
