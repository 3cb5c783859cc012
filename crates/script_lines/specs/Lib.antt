-- What a line of the script says, and a table of lines.
pub mod Lines
pub mod Cases
