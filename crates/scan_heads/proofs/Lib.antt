-- Laws of heads.
pub mod Packs
pub mod Inserts
pub mod Points
pub mod Passing
pub mod Opening
