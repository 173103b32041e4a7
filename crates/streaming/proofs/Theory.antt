pub mod SlotRun
-- Laws.
pub mod MonitorLaws
pub mod NumberLaws
pub mod StepRight
pub mod Demand2
pub mod RunRight
pub mod StreamRight
pub mod Meanings
