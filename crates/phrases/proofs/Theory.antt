pub mod Answers
pub mod PhraseLaws
