-- Whether a level is due.
pub mod Due
