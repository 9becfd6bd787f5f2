pub mod Shown
pub mod Kinds
pub mod Rows
pub mod Arrays
pub mod Items
