pub mod Reading
pub mod Reaching
pub mod Beginning
