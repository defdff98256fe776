-- Lemmas on reversals, of both paths, and their numbers of swaps.
pub mod Below
pub mod Halfway
pub mod Lengths
pub mod LongPath
pub mod Reversal
pub mod SideBySide
pub mod SwapCounts
