pub mod Answer
pub mod Tokens
