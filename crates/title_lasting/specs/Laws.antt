-- The laws that the crates above cite, each with its proof.
pub mod GoingOn
pub mod FineTraces
pub mod CallsMore
pub mod FineRows
pub mod FineScripts
pub mod FineBooks
pub mod KeptNews
pub mod Additions
pub mod CellsSaid
pub mod Plants
pub mod Begun
