pub mod Stored
pub mod SamePair
pub mod Examples
