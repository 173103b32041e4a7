pub mod Held
pub mod Judging
pub mod LayoutCalls
pub mod LayoutExamples
