-- Laws of ranges still to come.
pub mod Levels
pub mod Surveys
