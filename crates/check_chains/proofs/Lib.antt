-- The laws of all chains: with the marks they are what the definition says without.
pub mod Levels
pub mod Once
pub mod Means
