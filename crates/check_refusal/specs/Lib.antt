-- Which dockets a call is refused for.
pub mod Dockets
