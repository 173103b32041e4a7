pub mod Moves
pub mod Turns
pub mod Exploring
pub mod Keeping
pub mod HeldPoints
pub mod Given
pub mod LetterBounds
