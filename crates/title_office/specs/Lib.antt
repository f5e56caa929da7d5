pub mod Offices
pub mod Workers
pub mod Transactions
pub mod Turns
