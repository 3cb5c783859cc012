-- What levels have next.
pub mod Heads
