pub mod Held
pub mod Outcome
pub mod Followed
