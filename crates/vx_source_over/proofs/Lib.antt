pub mod Steps
pub mod NodeTypes
pub mod Searched
pub mod Settles
pub mod Retyped
pub mod Texts
