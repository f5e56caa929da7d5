-- The definitions that the contracts cite.
pub mod Grounds
pub mod Spots
pub mod TownshipTable
pub mod Forests
pub mod Keeping
pub mod Slots
pub mod Out
pub mod Refusing
pub mod TreeSheets
pub mod SquareSheets
pub mod Propositions
