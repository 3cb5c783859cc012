-- What a write is handed and what it hands on.
pub mod Writing
