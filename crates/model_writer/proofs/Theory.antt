pub mod Values
pub mod Rows
pub mod Inserted
pub mod Bytes
pub mod Meaning
pub mod Listing
pub mod Means
pub mod AnswerLaws
