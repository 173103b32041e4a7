pub mod Digits
pub mod Input
pub mod InputLaws
pub mod LinesLaws
