-- The lemmas.
pub mod Replies
pub mod Slips
pub mod Settling
pub mod Lists
pub mod Runs
pub mod Served
pub mod Outcomes
pub mod Ends
pub mod Crossing
pub mod Faults
mod Fronts
