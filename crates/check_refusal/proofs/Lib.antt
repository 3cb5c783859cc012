-- The laws of the check.
pub mod Tables
pub mod Answer
pub mod Refusals
