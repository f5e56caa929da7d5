-- The definitions that the contracts cite.
pub mod Estates
pub mod Kinds
pub mod Numbers
pub mod Parties
pub mod Check
pub mod Passing
pub mod Owners
pub mod Effect
pub mod Laws
