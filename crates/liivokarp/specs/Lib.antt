pub mod Replies
pub mod Outcomes
