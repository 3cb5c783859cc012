-- Ranges of two levels, united.
pub mod Uniting
