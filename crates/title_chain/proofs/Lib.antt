-- The lemmas.
pub mod SpotOrder
pub mod SpotEntries
pub mod SpotsInOrder
pub mod Filings
pub mod FoundLaws
pub mod Nearness
pub mod CoverTells
