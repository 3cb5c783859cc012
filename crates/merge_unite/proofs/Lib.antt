-- Two chains of ranges walked side by side: where the walk stands, and each of its steps.
pub mod Spans
pub mod Dates
pub mod Places
pub mod Steps
pub mod Meets
pub mod Ends
