-- The two tables as the code of the merges meets them.
pub mod Laid
