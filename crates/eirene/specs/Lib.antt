-- In the order of reading; from `Statuses` on, what contracts inside the program see of its own types.
pub mod Workspaces
pub mod Replies
pub mod Texts
pub mod Scripts
pub mod Promise
pub mod Outcomes
pub mod Rows
pub mod Statuses
pub mod Answers
pub mod Steps
pub mod Versions
