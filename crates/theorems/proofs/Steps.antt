-- Short steps to the theorems that no other crate has.
pub mod Traces
pub mod Events
pub mod Lines
pub mod ByTokens
pub mod LowerCaseTokens
pub mod LowerCase
pub mod LowerCaseLines
pub mod DeclaredBytes
pub mod WithoutCapitals
pub mod DeclaresBoth
pub mod SamePoints
pub mod LayoutVerdict
pub mod PrintedTwice
pub mod EmptyElses
pub mod RelationalModels
pub mod ExpandedSorts
