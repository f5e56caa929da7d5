pub mod Ranges
pub mod Sections
pub mod CellSquares
pub mod GridCounts
pub mod ListSteps
pub mod RowBits
pub mod GridRows
pub mod Nestings
