pub mod Prints
pub mod Reported
pub mod Answered
pub mod ReadsBack
