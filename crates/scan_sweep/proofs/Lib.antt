-- Laws of sweeps.
pub mod Crossing
pub mod Arriving
pub mod Opening
