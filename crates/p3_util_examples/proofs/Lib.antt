-- The modules of lemmas of this crate.
mod JoinedLemmas
mod TransformLemmas
