-- What a write leaves on level L.
pub mod Acting
