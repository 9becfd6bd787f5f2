pub mod Defaults
pub mod Kept
pub mod Lost
pub mod Wanted
pub mod Readers
pub mod Laws
