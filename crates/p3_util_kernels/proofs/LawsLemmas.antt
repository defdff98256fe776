-- Lemmas on the least numbers of exchanges and of writes.
pub mod Counts
pub mod Least
pub mod Steps
