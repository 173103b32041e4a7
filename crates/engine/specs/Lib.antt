pub mod Engine
pub mod Run
pub mod Structs
