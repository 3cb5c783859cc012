-- Definitions that the contracts of the row tests cite.
pub mod Forms
