-- What the end of a call leaves is what the definition of the call says.
pub mod Finishing
