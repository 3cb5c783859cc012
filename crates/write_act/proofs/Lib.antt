-- What a write leaves of level L.
pub mod Named
pub mod Overwrites
pub mod LaidActs
