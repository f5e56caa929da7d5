-- The laws that the crates above cite, each with its proof.
pub mod Each
pub mod EffectLaws
pub mod SheetLaws
pub mod SheetHoldings
pub mod SheetShows
pub mod RefusedPuts
pub mod LoanLaws
pub mod PlantCells
pub mod TractNodes
pub mod SheetNodes
pub mod SheetSteps
pub mod SheetParts
pub mod Taken
