pub mod Choice
pub mod Bytes
pub mod Each
pub mod Recursion
pub mod Masks
pub mod LeastAndSize
