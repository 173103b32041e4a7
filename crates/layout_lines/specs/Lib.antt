pub mod Prints
pub mod Answered
