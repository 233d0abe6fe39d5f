-- In the order of reading.
pub mod Parts
