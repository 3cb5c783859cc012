-- Laws of held chains: what each change of a table leaves of them.
pub mod Frames
pub mod Cuts
pub mod Laws
pub mod Reading
pub mod Sieves
pub mod Splices
pub mod Bounds
