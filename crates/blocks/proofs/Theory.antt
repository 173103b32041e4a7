pub mod Outcome
pub mod TableLaws
pub mod RangeLaws
pub mod OutcomeLaws
pub mod Redirect
pub mod CycleLaws
