pub mod Language
pub mod Reading
pub mod Laws
