pub mod Theory
pub mod Counting
pub mod Putting
pub mod Unpacking
