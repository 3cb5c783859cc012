-- What an entry leaves of the chains and the levels.
pub mod Unites
pub mod Dates
pub mod Takes
pub mod Entries
pub mod Entered
pub mod LaidEntries
