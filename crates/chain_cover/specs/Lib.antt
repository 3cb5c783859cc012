-- What a walk along a chain relies on, what is left of a chain where its front is passed, and what ranges say of ascending dockets.
pub mod Walks
pub mod Skips
pub mod Fronts
pub mod Dates
