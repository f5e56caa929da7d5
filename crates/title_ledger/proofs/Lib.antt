-- The lemmas.
pub mod Adding
