-- The laws that the crates above cite, each with its proof.
pub mod AskLaws
pub mod Past
pub mod PostsAgain
pub mod PartsInTurn
