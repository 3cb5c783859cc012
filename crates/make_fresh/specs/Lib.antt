-- The words of a fresh store.
pub mod Fresh
