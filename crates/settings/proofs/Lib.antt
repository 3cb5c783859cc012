-- The laws of the settings, a file for each definition that they speak of.
pub mod Allowed
pub mod Answers
pub mod Powers
pub mod Capacities
pub mod Limits
pub mod Carried
pub mod Facts
