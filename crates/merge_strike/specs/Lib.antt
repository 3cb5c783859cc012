-- Lower points held against an upper level.
pub mod Striking
