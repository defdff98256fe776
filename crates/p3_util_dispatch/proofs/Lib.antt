-- The modules of lemmas of this crate.
pub mod Asked
pub mod CutParts
pub mod InterleavedSteps
pub mod LinesLemmas
pub mod MirrorSteps
pub mod PartPlaces
pub mod PartsLaw
pub mod PatchSteps
pub mod PatchesLemmas
pub mod RegionSteps
pub mod RowBytes
pub mod WholeMatrix
