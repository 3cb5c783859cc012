-- What each stage of a write leaves is what the definition prepares, and so is the work of a flush and of a tick.
pub mod Preparing
pub mod Writing
pub mod Works
