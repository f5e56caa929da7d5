pub mod Loops
pub mod TextWalks
pub mod Entries
pub mod Areas
pub mod Spellings
pub mod NodeTexts
pub mod NodeCovers
pub mod TextsDoubled
mod SquareParts
