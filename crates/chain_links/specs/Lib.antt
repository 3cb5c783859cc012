-- A slot's words after it was linked, freed or stamped.
pub mod Links
