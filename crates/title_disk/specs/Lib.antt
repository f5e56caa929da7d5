pub mod Crashes
pub mod Kept
pub mod TornDisks
pub mod Laws
