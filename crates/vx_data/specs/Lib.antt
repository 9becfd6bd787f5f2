pub mod Cells
pub mod Numbers
pub mod Lines
pub mod Kinds
pub mod Quotes
