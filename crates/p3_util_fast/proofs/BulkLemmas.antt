-- Lemmas on steps in bulk.
pub mod Blocks
pub mod Runs
pub mod Tiles
