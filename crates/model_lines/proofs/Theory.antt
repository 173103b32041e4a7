pub mod Prints
pub mod PrintsLaws
pub mod Answered
pub mod Long
