-- Lemmas on the transform: its stages, and that one transform undoes the other.
pub mod Inverse
pub mod Law
pub mod Numbers
pub mod Parts
pub mod Remainders
pub mod Roots
pub mod Rows
pub mod Stages
pub mod Sums
