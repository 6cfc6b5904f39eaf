pub mod Text
pub mod Answers
pub mod Words
pub mod Statuses
pub mod Scripts
pub mod Runs
pub mod Outcomes
