pub mod Ledgers
pub mod Laws
