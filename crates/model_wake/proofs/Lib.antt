-- Laws of when to wake.
pub mod Smallest
pub mod Sleep
pub mod Rest
pub mod Quiet
pub mod Cases
