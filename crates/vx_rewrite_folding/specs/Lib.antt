pub mod Behind
pub mod Constants
pub mod Known
