pub mod Numbers
pub mod Held
pub mod Judging
pub mod LayoutCalls
pub mod TraceCalls
pub mod MonitorCalls
