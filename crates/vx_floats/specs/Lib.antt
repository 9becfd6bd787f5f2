pub mod Floats
pub mod Codes
pub mod Deciding
pub mod Texts
pub mod Parts
