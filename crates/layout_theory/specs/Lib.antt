pub mod Layout
pub mod Writing
