-- Lemmas on steps of a holder: lists whose items are exchanged or written.
pub mod Exchange
pub mod ListParts
pub mod Runs
pub mod SameList
pub mod WrittenPlaces
