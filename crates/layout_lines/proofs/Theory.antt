pub mod PrintsLaws
pub mod Answered
pub mod Examples
