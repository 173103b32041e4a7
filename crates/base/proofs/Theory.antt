pub mod Choice
pub mod Each
pub mod Laid
pub mod Fill
pub mod Lent
pub mod Recursion
pub mod MaskLaws
pub mod Written
