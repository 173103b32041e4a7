pub mod Prints
pub mod Answered
pub mod Written
