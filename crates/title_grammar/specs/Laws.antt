-- The laws that the crates above cite, each with its proof.
pub mod Exact
pub mod Repeat
pub mod Combine
pub mod Words
pub mod Faults
pub mod Sets
pub mod Heads
