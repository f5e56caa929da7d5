mod Ended
mod RunsKept
mod DeclaredParties
mod DaysMade
mod OfficeEnds
