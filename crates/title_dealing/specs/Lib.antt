pub mod Turns
pub mod Dealing
pub mod OfficeScripts
