-- Lines by their letters and their numbers, the longest line, and the tables.
mod Forms
pub mod Long
pub mod Cases
