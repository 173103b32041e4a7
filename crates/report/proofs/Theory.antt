pub mod ShownLaws
pub mod Forms
pub mod ReportParts
pub mod Packed
pub mod Bound
pub mod WroteLaws
