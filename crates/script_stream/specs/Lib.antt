-- The script's input: the lines of the whole, what they print, and the same block by block.
pub mod Input
pub mod Blocks
pub mod Cases
