-- Laws of the walks, of the answers, and of what sound tables have.
pub mod Answers
pub mod Walks
pub mod Sound
