-- In the order of reading.
pub mod Causes
pub mod Files
pub mod Sources
pub mod Sinks
pub mod Shelves
pub mod Adapters
