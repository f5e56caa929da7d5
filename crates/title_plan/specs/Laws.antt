-- The laws that the crates above cite, each with its proof.
pub mod Names
pub mod Declarations
pub mod Acts
