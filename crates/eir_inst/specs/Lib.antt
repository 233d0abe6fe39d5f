-- In the order of reading.
pub mod BoundedFacts
pub mod FactList
pub mod Keys
pub mod Postings
pub mod Numbers
pub mod Marks
pub mod Grown
pub mod Indexes
pub mod Layers
