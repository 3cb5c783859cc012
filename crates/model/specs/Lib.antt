-- Document 01 as definitions, in its own order.
pub mod Records
pub mod Coverage
pub mod Merge
pub mod Steps
pub mod Lookup
pub mod Live
pub mod Calls
pub mod PlainMap
pub mod Erasure
pub mod Renaming
pub mod Cases
pub mod Ways
