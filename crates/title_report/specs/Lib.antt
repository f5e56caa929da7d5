pub mod EntryTexts
pub mod Fields
pub mod Fronts
pub mod Puts
pub mod Replies
pub mod Rosters
