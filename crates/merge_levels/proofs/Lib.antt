-- Laws of the levels as merges change them, in the two tables and one after the other.
pub mod LevelChains
pub mod LevelTable
pub mod Store
pub mod Pair
pub mod Turns
pub mod Free
