-- In the order of reading.
pub mod Spaces
pub mod Tries
pub mod Standings
pub mod Outcomes
