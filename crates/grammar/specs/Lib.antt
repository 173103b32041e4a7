pub mod Limits
pub mod Tree
pub mod Expanded
pub mod Meanings
pub mod MeaningOfTraces
pub mod Grammar
pub mod Reading
pub mod Spelled
