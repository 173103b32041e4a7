pub mod BytesLaws
pub mod TokensLaws
pub mod WordsLaws
pub mod Keys
pub mod Examples
