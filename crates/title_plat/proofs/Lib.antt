pub mod Walks
pub mod PartRows
pub mod SheetCells
