-- The end of a begun call is what the definition of the call says.
pub mod Ends
