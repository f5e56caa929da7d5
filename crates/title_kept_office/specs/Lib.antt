pub mod Faults
pub mod OfficeDays
pub mod Makings
pub mod OfficeLastings
