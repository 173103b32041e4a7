pub mod Answer
pub mod Lists
pub mod Hidden
pub mod Top
pub mod Reads
pub mod Examples
