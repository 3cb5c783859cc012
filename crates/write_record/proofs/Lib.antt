-- A write as a level of one record, what goes by it, and one level of the tables.
pub mod Singles
pub mod SingleMerges
pub mod Dooms
pub mod OneLevel
pub mod Crowds
