-- What turns a timed call away at once, and a call that nothing does.
pub mod Began
