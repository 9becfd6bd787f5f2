pub mod SourceTexts
pub mod Options
pub mod Plain
