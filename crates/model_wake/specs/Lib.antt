-- Request S-5, "When to wake".
pub mod Wake
pub mod Cases
