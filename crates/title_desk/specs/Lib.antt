pub mod Told
pub mod Shown
pub mod Opened
pub mod Images
pub mod Keeps
pub mod Headline
pub mod Singles
pub mod Laws
