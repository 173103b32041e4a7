pub mod Bytes
pub mod Tokens
pub mod Words
