-- A line of the script byte by byte, and the code's room for it.
pub mod Bytes
pub mod Room
