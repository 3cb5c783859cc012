-- How a call ends: its answer, what is handed to its end, and what that leaves.
pub mod Coded
pub mod Ending
