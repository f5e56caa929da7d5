pub mod Devices
pub mod Limits
