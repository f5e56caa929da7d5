pub mod LentLaws
pub mod MapLaws
pub mod Backing
pub mod Puts
