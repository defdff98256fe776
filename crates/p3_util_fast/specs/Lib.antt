pub mod BlockPut
pub mod Columns
pub mod Crossing
pub mod Grid
pub mod Mirrored
pub mod RegisterLines
pub mod Registers
pub mod Tiles
