-- In the order of reading.
pub mod Trials
pub mod Searching
