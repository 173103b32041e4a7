pub mod Lines
pub mod Display
pub mod Fields
pub mod Says
pub mod Prints
pub mod Answered
pub mod Examples
