-- Document 01, "Settings and limits"; requests S-3 and S-4.
pub mod Limits
pub mod Checked
pub mod Carried
