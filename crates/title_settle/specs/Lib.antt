pub mod Settling
pub mod Marks
pub mod SettledLaws
