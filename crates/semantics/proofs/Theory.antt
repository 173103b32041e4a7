pub mod Prefixes
pub mod SameWindow
-- General laws.
pub mod Booleans
pub mod Lists
pub mod TermEquality
-- Terms, closure and models.
pub mod Facts
pub mod ClosureLaws
pub mod Decide
pub mod FirstsLaws
pub mod NumberingLaws
pub mod Shown
pub mod PackedTablesLaws
pub mod ShownPacked
pub mod ShownUnique
-- Coherence.
pub mod Climb
pub mod Judge
pub mod JudgementLaws
pub mod TraceLaws
pub mod PaperLaws
-- The window, letter by letter.
pub mod Start
pub mod Of
pub mod ClassNames
pub mod Extend
pub mod Local
pub mod Equate
pub mod Unequal
pub mod Rename
pub mod Apply
pub mod Steps
pub mod JudgeView
pub mod Redundant
pub mod Carries
pub mod StrictLaws
-- Examples.
pub mod Examples
pub mod Witnesses
pub mod Tables
