pub mod Definition3
pub mod Stricter
pub mod Milder
pub mod LowerCase
pub mod EmptyElses
pub mod Original
pub mod Relations
pub mod MonitorWords
