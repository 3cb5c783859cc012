-- What one level says of a docket, and what reading the levels relies on.
pub mod Answers
pub mod Readable
