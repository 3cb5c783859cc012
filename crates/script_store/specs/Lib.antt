-- A store in memory, and what each call does to it.
pub mod Memory
pub mod Coded
pub mod Stores
