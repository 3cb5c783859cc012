-- The words of the two tables: what they say, what makes them sound, and what a state writes into them.
pub mod Words
pub mod Slots
pub mod Rows
pub mod Sound
pub mod Placed
pub mod Formed
