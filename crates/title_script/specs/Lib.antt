pub mod Faults
pub mod Served
pub mod Told
pub mod Reports
pub mod Runs
pub mod ReportLaws
pub mod Laws
