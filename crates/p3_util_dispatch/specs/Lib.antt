pub mod Interleaved
pub mod Lines
pub mod Parts
pub mod Patches
pub mod PlacesOfParts
pub mod Plans
