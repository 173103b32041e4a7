-- Definitions: what the functions compute.
pub mod Monitor
pub mod Run
pub mod Stream
pub mod SlotRun
pub mod Demand2
pub mod Meanings
pub mod Following
pub mod Outcome
