pub mod Theory
pub mod Turns
