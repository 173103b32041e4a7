pub mod Lines
pub mod Shown
pub mod Examples
pub mod Bound
