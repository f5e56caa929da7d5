mod KeptRecords
mod Recalled
mod Again
mod AnotherDay
