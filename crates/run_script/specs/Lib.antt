-- What a turn of the program's loop makes of where the script stands.
pub mod Turns
