pub mod Plain
pub mod Tree
pub mod WrittenOut
pub mod Executions
pub mod Words
pub mod Order
pub mod Walk
pub mod Points
