-- Laws behind the code, and what the whole input prints.
pub mod Steps
pub mod Whole
pub mod Cases
