pub mod Halvings
pub mod Judged
pub mod Lines
pub mod Plain
pub mod Puts
pub mod SheetParts
