-- List operations that document 01's definitions are written with, and statements about lists.
pub mod Lists
pub mod All
