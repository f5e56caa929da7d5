-- The laws that the crates above cite, each with its proof.
pub mod LineLaws
pub mod AnswersInTurn
pub mod GivenBytes
