-- The laws of blocks, each with its proof.
pub mod Reading
pub mod Rows
pub mod Gates
