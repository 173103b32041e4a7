pub mod Spacing
pub mod Finding
pub mod Declaring
pub mod Printing
pub mod Answering
pub mod Examples
