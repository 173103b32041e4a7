pub mod Appending
pub mod Numerals
pub mod Names
pub mod Templates
