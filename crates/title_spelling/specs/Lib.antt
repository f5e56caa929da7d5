pub mod Cells
pub mod Lands
pub mod Posts
pub mod Rows
pub mod Laws
