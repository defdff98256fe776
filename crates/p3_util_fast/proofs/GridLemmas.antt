-- Lemmas on grids: which places they have, and how parts of them are exchanged.
pub mod Crossing
pub mod Distances
pub mod Mirrored
pub mod Parts
pub mod Rows
pub mod SquareCounts
