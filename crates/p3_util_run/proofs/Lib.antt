-- The modules of lemmas of this crate.
pub mod Endings
pub mod NumberLists
pub mod Pieces
pub mod Sides
