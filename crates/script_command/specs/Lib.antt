-- What a line does.
pub mod Script
pub mod Cases
