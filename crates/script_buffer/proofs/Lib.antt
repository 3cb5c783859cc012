-- Laws behind the code, and what its contracts determine.
pub mod Steps
pub mod Determined
