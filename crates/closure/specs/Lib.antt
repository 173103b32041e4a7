pub mod Limits
pub mod Numbering
pub mod Merging
pub mod Represents
pub mod Index
pub mod Arrays
pub mod Structs
