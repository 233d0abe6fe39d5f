-- In the order of reading.
pub mod Prefixes
pub mod Words
pub mod Facts
pub mod Dependencies
pub mod Verdicts
pub mod Replies
pub mod Refusals
pub mod Causes
