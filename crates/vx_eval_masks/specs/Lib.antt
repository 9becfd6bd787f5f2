pub mod Masks
pub mod Merges
pub mod Choices
