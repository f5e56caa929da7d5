mod FromOne
mod TurnsOfOne
pub mod TurnsKept
pub mod DealingLaws
mod TurnsOnto
