pub mod Traces
pub mod Writing
pub mod Unpacking
pub mod Putting
pub mod Examples
pub mod Reading
pub mod ReadingParts
