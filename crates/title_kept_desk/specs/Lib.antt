pub mod Sittings
pub mod Desks
pub mod LookLines
pub mod LookDesks
