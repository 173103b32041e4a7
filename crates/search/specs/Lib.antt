pub mod Trails
pub mod Searched
pub mod Tracing
pub mod Modelling
pub mod Answering
pub mod MacroSearch
pub mod MacroExecutions
