pub mod Words
pub mod Exact
pub mod Properties
pub mod Witnesses
