-- The laws that the crates above cite, each with its proof.
pub mod SameDivisions
pub mod Grafts
pub mod Beginnings
pub mod PathLists
pub mod NumberPaths
pub mod Swaps
pub mod Images
pub mod Uniform
pub mod Refusals
pub mod Depths
pub mod CellSquares
pub mod Joined
pub mod Settled
pub mod Adding
