pub mod Codes
pub mod Words
pub mod Formats
pub mod Records
pub mod Examples
