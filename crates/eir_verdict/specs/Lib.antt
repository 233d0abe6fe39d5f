-- In the order of reading.
pub mod Findings
pub mod Foldings
pub mod Foreign
