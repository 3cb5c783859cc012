-- What the demands say of lookups and of the numbers in the tables, lists in which lookups and scans stand among the timed calls, tables and lists that
-- differ in tallies or in prices alone, and what a controller that sleeps may rely on.
pub mod Full
pub mod LastPut
pub mod Events
pub mod Numbers
pub mod Hidden
pub mod Sleep
