pub mod Standing
pub mod StandingLaws
pub mod Records
pub mod Replays
pub mod Laws
