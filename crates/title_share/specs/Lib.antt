-- The definitions that the contracts cite.
pub mod Rows
pub mod Division
pub mod Share
pub mod Texts
pub mod TextLaws
pub mod Laws
