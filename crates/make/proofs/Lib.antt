-- The laws of a made store; the last has what an accepted making leaves.
pub mod Answers
pub mod Fresh
pub mod Accepted
