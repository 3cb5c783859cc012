-- Owed is the earliest clock of what came.
pub mod Earliest
pub mod Owed
pub mod Cases
