pub mod Refusals
pub mod PostsDoubled
pub mod SheetsDoubled
pub mod Turns
pub mod NodesInTurn
pub mod SheetTurns
