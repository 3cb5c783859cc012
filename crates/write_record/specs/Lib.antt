-- What a write puts into a slot, and which points it makes go.
pub mod Records
