-- Lemmas.
pub mod PathNumbers
pub mod Joins
