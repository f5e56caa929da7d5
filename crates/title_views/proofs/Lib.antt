-- The lemmas.
pub mod Growing
pub mod Additions
pub mod Sights
pub mod Making
pub mod Crossing
