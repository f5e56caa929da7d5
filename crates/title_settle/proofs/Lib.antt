pub mod Seen
pub mod Unknowns
pub mod Marking
pub mod Placing
pub mod Counting
