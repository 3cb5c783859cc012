-- What a changed slot leaves of the other rows.
pub mod Links
