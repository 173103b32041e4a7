pub mod Answer
pub mod Input
pub mod Lines
