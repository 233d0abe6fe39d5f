pub mod Causes
pub mod Edits
pub mod Goods
pub mod Histories
pub mod Pairs
pub mod State
