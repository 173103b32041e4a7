pub mod Count
pub mod Verdict
pub mod AnyPairs
pub mod AnswerPacking
pub mod Demand3
