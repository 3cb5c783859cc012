-- Laws of what goes out to C.
pub mod Numbers
pub mod Rooms
