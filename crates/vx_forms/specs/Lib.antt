pub mod Named
pub mod Rows
pub mod Fields
pub mod Given
pub mod Applied
pub mod Collected
pub mod Replaced
pub mod Literals
