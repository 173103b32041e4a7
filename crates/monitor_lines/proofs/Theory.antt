pub mod PrintsLaws
