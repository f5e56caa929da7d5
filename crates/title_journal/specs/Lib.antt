pub mod Blocks
pub mod Rest
pub mod Beginnings
pub mod Laws
