-- Laws of reports.
pub mod NothingStood
