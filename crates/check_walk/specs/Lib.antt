-- What a walk computes, in the order of the code.
pub mod Slots
pub mod Walks
