-- What a line of the script prints.
pub mod Texts
