-- Laws of held cells in order, and of what each step of striking leaves.
pub mod Suffixes
pub mod Places
pub mod Standings
pub mod Strikes
