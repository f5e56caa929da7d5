-- Laws that crates above cite.
pub mod InTurn
pub mod Rows
pub mod Whole
pub mod RowTexts
