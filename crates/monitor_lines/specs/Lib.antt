pub mod Prints
pub mod Examples
