pub mod Tallies
pub mod OfficeRecords
pub mod OfficeReports
pub mod Closings
pub mod OfficeRuns
pub mod OfficeDays
pub mod DaysOn
pub mod Laws
