pub mod Content
pub mod OfSections
pub mod Found
pub mod Loaned
pub mod States
pub mod Ends
pub mod Steps
pub mod Homes
pub mod Shows
pub mod Singles
mod Walks
