-- The modules of lemmas of this crate.
pub mod Callers
pub mod FilledChunk
pub mod FlatLemmas
pub mod JoinedLists
pub mod JsonLists
pub mod Loans
pub mod MapLemmas
pub mod Moved
pub mod PaddedRuns
pub mod PiecesLemmas
pub mod WholePieces
pub mod ZipEqRuns
