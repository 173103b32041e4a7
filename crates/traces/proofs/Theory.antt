pub mod Units
pub mod TraceLaws
pub mod WritingLaws
