pub mod Answer
pub mod Lists
pub mod Top
pub mod Reads
