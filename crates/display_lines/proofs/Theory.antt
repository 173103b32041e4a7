pub mod Digits
pub mod Forms
pub mod Saying
pub mod Settled
pub mod PrintsLaws
pub mod Answered
