-- What an entry leaves, in a slot and in the buffer.
pub mod Uniting
pub mod Taking
pub mod Entering
