-- The definitions that the contracts cite.
pub mod Asks
pub mod StepEntries
pub mod Chains
pub mod Alone
pub mod Overlaps
pub mod ChainLaws
pub mod Replays
pub mod PostSpots
pub mod SpotMaps
pub mod TractIndexes
pub mod SoleNodes
pub mod SheetParts
pub mod SquareRows
pub mod KeptRows
pub mod StepLists
pub mod Laws
