pub mod Slots
pub mod Performing
pub mod Represents
pub mod Around
