-- What is proved of sound tables and of every list of calls from a fresh store; the last file has the demands.
pub mod Full
pub mod Merged
pub mod SameTables
pub mod HiddenWords
pub mod Made
pub mod LastPuts
pub mod Events
pub mod Numbers
pub mod Sleep
pub mod Asleep
pub mod Grower
pub mod Demands
