pub mod Sentences
pub mod Questions
pub mod FirstNo
pub mod Order
pub mod Accepted
