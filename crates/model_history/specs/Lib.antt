-- What happened to the levels in a list of calls.
pub mod History
pub mod Cases
