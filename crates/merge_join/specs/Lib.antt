-- Two levels and the one that they become.
pub mod Joining
