pub mod Trace
pub mod Due
pub mod Serial
pub mod Laws
