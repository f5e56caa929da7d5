mod Standing
mod Crash
mod Repairing
mod Splitting
mod Outcomes
mod Inverting
mod Beginning
