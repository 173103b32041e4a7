pub mod Pairs
pub mod Dropping
pub mod Spaced
pub mod ReadBack
pub mod Somehow
pub mod Settled
pub mod Examples
