pub mod Digits
pub mod Tables
pub mod FormatLaws
pub mod Agree
pub mod Pairs
pub mod Storable
