-- Lemmas on transposes, of whole matrices and of regions.
pub mod Diagonal
pub mod Halves
pub mod Levels
pub mod Matrix
pub mod Region
pub mod Stages
pub mod Tiles
