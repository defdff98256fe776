-- The modules of lemmas of this crate.
pub mod BulkLemmas
pub mod ColumnsLemmas
pub mod GridLemmas
pub mod RegistersBlocks
pub mod RegistersLemmas
pub mod RegistersLines
pub mod RegistersSquares
pub mod RegistersSteps
pub mod RegistersTiles
