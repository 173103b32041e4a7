pub mod Packing
pub mod WordLaws
pub mod CapacityLaws
pub mod ReasonLaws
