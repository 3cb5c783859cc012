-- Laws of chains, of the walks along them, of fronts, and of the latest date.
pub mod Chains
pub mod Walks
pub mod Skips
pub mod Fronts
pub mod Dates
