pub mod EngineLaws
pub mod Run
pub mod ReadingLaws
pub mod RunLaws
