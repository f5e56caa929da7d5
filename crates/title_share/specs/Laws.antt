-- The laws that the crates above cite, each with its proof.
pub mod DivisionLaws
pub mod Texts
pub mod RowLaws
pub mod ShareLaws
pub mod Cases
