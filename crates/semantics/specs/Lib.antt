-- Definitions (SPEC 3 to 7), in the order of document 01.
pub mod Terms
pub mod Closure
pub mod Models
pub mod AnyModel
pub mod Coherence
pub mod Prefixes
pub mod Judgement
pub mod Window
pub mod SameWindow
pub mod Firsts
pub mod Tables
pub mod Numbering
pub mod PackedTables
pub mod Paper
pub mod Strict
pub mod Lists
pub mod TermEquality
-- Terms, closure and models.
pub mod Facts
pub mod Decide
pub mod Judge
pub mod ClassNames
pub mod TablesRead
pub mod View
pub mod FirstLetters
pub mod ShownTables
