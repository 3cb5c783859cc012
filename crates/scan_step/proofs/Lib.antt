-- Laws of a sweep and of its steps.
pub mod Branches
pub mod LiveRows
pub mod Coming
pub mod Shown
pub mod Steps
