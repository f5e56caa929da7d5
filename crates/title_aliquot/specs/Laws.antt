-- The laws that the crates above cite, each with its proof.
pub mod Total
pub mod Readings
pub mod Texts
pub mod Whole
pub mod Unique
pub mod Shapes
pub mod Lands
pub mod Grammar
