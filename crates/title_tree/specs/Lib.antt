-- The definitions that the contracts cite.
pub mod Changes
pub mod Faults
pub mod Paths
pub mod Plots
pub mod Joins
pub mod Trees
pub mod Pieces
pub mod Joining
pub mod Parts
pub mod Lendings
pub mod Cells
pub mod PlotLaws
pub mod PieceLaws
pub mod LendingLaws
pub mod DepthLaws
pub mod CellWays
pub mod Laws
