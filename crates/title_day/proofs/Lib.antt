pub mod Begun
pub mod Closes
pub mod OfficeCauses
pub mod OfficeCounts
pub mod OfficeOrder
pub mod OfficeReported
mod StoodOutcomes
